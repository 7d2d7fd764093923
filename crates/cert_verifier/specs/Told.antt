-- What a check tells: the first rule that is broken, or want of memory.
use Rattle.std.specs.Prelude.{◌≢◌, Option, Some}
use Rattle.cert_verifier.specs.declared.rejected.Rejected.{Rejected}
use Rattle.cert_verifier.specs.declared.rejected.Rejected.TheVariants.{OutOfMemory}

-- what these rules find, where it is not want of memory
abbrev pub Tells : (Option Rejected → Type 0) → Option Rejected → Type 0
Tells finds found = found ≢ Some OutOfMemory → finds found
