mod SplitLaws
mod SpreadLaws
mod ShapeLaws
