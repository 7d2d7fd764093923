-- What a clause sees of a sink in memory.
use Rattle.std.specs.Prelude.{ℕ, ◌≡◌, ◌-◌, Bool, List, [], length}
use Rattle.plan_io.specs.declared.fail_list.FailList.{FailList}
use Rattle.plan_io.specs.declared.mem_sink.MemSink.{MemSink}
use Rattle.plan_io.specs.FailList.{IsUncalled, IsOneCall}

-- all that was written
abbrev pub bytes_of : MemSink → List ℕ
bytes_of sink = sink.bytes.items

-- the most bytes that it takes
abbrev pub greatest_len : MemSink → ℕ
greatest_len sink = sink.greatest_len

-- how many bytes more it takes
abbrev pub room_in : MemSink → ℕ
room_in sink = greatest_len sink - length (bytes_of sink)

-- which of its calls are to fail, and how many there were and failed
abbrev pub fails_of : MemSink → FailList
fails_of sink = sink.fails

-- nothing was called yet
pub record IsUnused (sink : MemSink) : Type 0 where
  pub bytes : bytes_of sink ≡ []
  pub fails : IsUncalled (fails_of sink)

-- a call was counted, and a fault where it failed
pub record IsCalled (old new : MemSink) (has_failed : Bool) : Type 0 where
  pub greatest : greatest_len new ≡ greatest_len old
  pub fails : IsOneCall (fails_of old) (fails_of new) has_failed
