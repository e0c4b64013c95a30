-- A shelf as a state of its binder.
use Rattle.std.specs.Prelude.{vec_items}
use Rattle.calls.specs.Calls.{State}
use Rattle.bindlist.specs.declared.shelf.Shelf.{Shelf}

abbrev pub state : Shelf → State
state s = record { count = s.binder.count; used = s.binder.used; bytes = vec_items s.bytes }
