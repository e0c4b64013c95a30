-- Which schemes are excluded at a node, and which may compete there.
use Rattle.std.specs.Prelude.{ℕ, Bool, true, false, not, ◌&&◌, ◌||◌, List, [], ◌∷◌, ◌==◌}
use Rattle.scheme.specs.Rules.{Rule, names}
use Rattle.scheme.specs.Meaning.{Meaning, History}

abbrev pub in_history : ℕ → History → Bool
in_history i [] = false
in_history i (e ∷ es) = e.0 == i || in_history i es

-- the push rules of the first scheme with the id
abbrev pub push_of : ℕ → List Meaning → List Rule
push_of i [] = []
push_of i (m ∷ ms) = elim (m.id == i) [ true ↦ m.push | false ↦ push_of i ms ]

-- a push rule of an entry's scheme names scheme i at that child
abbrev pub pushed : List Meaning → ℕ → History → Bool
pushed ms i [] = false
pushed ms i (e ∷ es) = names (push_of e.0 ms) i e.1 || pushed ms i es

-- one of the pull rules names an entry
abbrev pub pulled : List Rule → History → Bool
pulled rules [] = false
pulled rules (e ∷ es) = names rules e.0 e.1 || pulled rules es

-- its id is in the history, a push rule names it, or its own pull rule names an entry
abbrev pub excluded : List Meaning → Meaning → History → Bool
excluded ms m h = in_history m.id h || (pushed ms m.id h || pulled m.pull h)

-- it takes the kind and is not excluded
abbrev pub competes : List Meaning → ℕ → History → Meaning → Bool
competes ms k h m = m.takes k && not (excluded ms m h)

abbrev pub keep_if : Bool → Meaning → List Meaning → List Meaning
keep_if true m ms = m ∷ ms
keep_if false m ms = ms

abbrev pub eligible_of : List Meaning → ℕ → History → List Meaning → List Meaning
eligible_of bank k h [] = []
eligible_of bank k h (m ∷ ms) = keep_if (competes bank k h m) m (eligible_of bank k h ms)

-- the schemes of a bank that may compete, in bank order
abbrev pub eligible : List Meaning → ℕ → History → List Meaning
eligible bank k h = eligible_of bank k h bank

-- one of them wants distinct counts
abbrev pub wanted : List Meaning → Bool
wanted [] = false
wanted (m ∷ ms) = m.wants || wanted ms
