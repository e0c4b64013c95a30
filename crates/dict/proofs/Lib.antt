mod PlaceLaws
mod CodeLaws
mod VerdictLaws
mod ShapeLaws
