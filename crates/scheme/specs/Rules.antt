-- Exclusion rules, and what they name.
use Rattle.std.specs.Prelude.{ℕ, Bool, true, false, ◌&&◌, ◌||◌, List, [], ◌∷◌, map, ◌==◌}
use Rattle.scheme.specs.declared.exclusion.ChildSelection.{ChildSelection}
use Rattle.scheme.specs.declared.exclusion.ChildSelection.TheVariants.{All, One, Many}
use Rattle.scheme.specs.declared.exclusion.DescendantExclusion.{DescendantExclusion}
use Rattle.scheme.specs.declared.exclusion.AncestorExclusion.{AncestorExclusion}

-- the children that a rule speaks of
pub data Children : Type 0 where
  all : Children
  one : ℕ → Children
  many : List ℕ → Children

-- a scheme, and the children that the rule names it at
pub record Rule : Type 0 where
  pub scheme : ℕ
  pub children : Children

abbrev pub member : ℕ → List ℕ → Bool
member c [] = false
member c (x ∷ xs) = x == c || member c xs

abbrev pub contains : Children → ℕ → Bool
contains all c = true
contains (one i) c = i == c
contains (many is) c = member c is

-- one of the rules names scheme i at child c
abbrev pub names : List Rule → ℕ → ℕ → Bool
names [] i c = false
names (r ∷ rs) i c = (r.scheme == i && contains r.children c) || names rs i c

-- ---- the code's rules

abbrev pub children_seen : ChildSelection → Children
children_seen All = all
children_seen (One i) = one i
children_seen (Many is) = many is.now

abbrev pub push_rule : DescendantExclusion → Rule
push_rule r = record { scheme = r.excluded; children = children_seen r.children }

abbrev pub pull_rule : AncestorExclusion → Rule
pull_rule r = record { scheme = r.ancestor; children = children_seen r.children }

abbrev pub push_seen : List DescendantExclusion → List Rule
push_seen rs = map push_rule rs

abbrev pub pull_seen : List AncestorExclusion → List Rule
pull_seen rs = map pull_rule rs
