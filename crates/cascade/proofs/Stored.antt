-- Views of columns that lent places hold.
use Rattle.std.proofs.Common.{◌≡◌, sym, ap, ◌∙◌, subst}
use Rattle.column.specs.declared.views.View.{View}
use Rattle.column.specs.Columns.{Column, Clean, CleanView, cleaned, offer_of, offer_seen, seen}
use Rattle.column.proofs.WordLaws.{cleaned-stored}

-- a view of a clean column as it is stored shows that column, and is clean
pub shows : (v : View) (c : Column) → offer_seen v ≡ offer_of c → seen v ≡ c
shows v c e = ap cleaned e ∙ cleaned-stored c

pub shown-clean : (v : View) (c : Column) → offer_seen v ≡ offer_of c → Clean c → CleanView v
shown-clean v c e k = record { stored = e ∙ ap offer_of (sym (shows v c e)); clean = subst Clean (sym (shows v c e)) k }
