-- What a clause sees of a shelf of texts in memory.
use Rattle.std.specs.Prelude.{◌≡◌, Bool}
use Rattle.plan_io.specs.declared.fail_list.FailList.{FailList}
use Rattle.plan_io.specs.declared.held_texts.HeldTexts.{HeldTexts}
use Rattle.plan_io.specs.declared.mem_shelf.MemShelf.{MemShelf}
use Rattle.plan_io.specs.FailList.{IsUncalled, IsOneCall}
use Rattle.plan_io.specs.Held.{texts_in, IsUnread}

-- its texts, and how far one of them is read
abbrev pub held_of : MemShelf → HeldTexts
held_of shelf = shelf.held

-- which of its calls are to fail, and how many there were and failed
abbrev pub fails_of : MemShelf → FailList
fails_of shelf = shelf.fails

-- nothing was called yet
pub record IsUnused (shelf : MemShelf) : Type 0 where
  pub held : IsUnread (held_of shelf)
  pub fails : IsUncalled (fails_of shelf)

-- a call was counted, and a fault where it failed
pub record IsCalled (old new : MemShelf) (has_failed : Bool) : Type 0 where
  pub texts : texts_in (held_of new) ≡ texts_in (held_of old)
  pub fails : IsOneCall (fails_of old) (fails_of new) has_failed
