use Rattle.std.proofs.Common.{◌≡◌, length, take}
use Rattle.incumbent.proofs.held.Held.set_to.Given as goal

abbrev pub invariant-loop-place : goal.invariant-loop-place
invariant-loop-place l = record {
  same : take l.place l.self.paths.items ≡ take l.place l.paths;
  long : length l.self.paths.items ≡ length l.paths;
}
