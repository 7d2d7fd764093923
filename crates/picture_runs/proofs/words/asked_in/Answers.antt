use Rattle.std.proofs.Common.{◌∙◌, ap}
use Rattle.std.specs.Prelude.{option_and_then}
use Rattle.picture_runs.specs.PictureRuns.{asked_of}
use Rattle.picture_runs.proofs.words.asked_in.Goals as goal

pub returns : goal.returns
returns c = c.asked_of.ensures ∙ ap (option_and_then asked_of) c.in_ok-given_in.ensures
