-- How many texts were begun, and why a command about texts stops there.
use Rattle.std.proofs.Common.{ℕ, ◌≡◌, ◌+◌, ◌≤◌, ◌<◌, ◌⊎◌, ◌^◌, List, Option, Some, None, Result, Ok, Err, refl, subst, arith, inl, inr}
use Rattle.std.specs.Prelude.{IfErr}
use Rattle.std.specs.Result.{result_err}
use Rattle.std.proofs.lemmas.Bool.{cases_lt}
use Rattle.plan_io.specs.Causes.{Rose, CountsUp}
use Rattle.plan_io.specs.declared.reading.ReadWhole.{ReadWhole}
use Rattle.plan_io.specs.declared.reading.ReadWhole.TheVariants as read_faults
use Rattle.plan_report.specs.declared.run_fault.FileKind.{FileKind}
use Rattle.plan_report.specs.declared.run_fault.FileKind.TheVariants as files
use Rattle.plan_report.specs.declared.run_fault.RunFault.{RunFault}
use Rattle.plan_report.specs.declared.run_fault.RunFault.TheVariants as faults
use Rattle.command_texts.specs.declared.stop.Stop.{Stop}
use Rattle.command_texts.specs.declared.stop.Stop.TheVariants as stops
use Rattle.command_texts.specs.Texts.{Name, Told, Texts, Begun, most_bytes, count_of, text_count, alone, AreRead}
use Rattle.command_texts.specs.Refusals.{AreRefused, IsRefusalOf, IsLastBegun, WasRead, name_of, Counts}
use Rattle.command_texts.specs.Stops.{stop_of_reading, IsUnread, IsReadStop, IsTextStop, TookMore, IsStopCause, Stops, BeginsOrStops}

one-more : (before now : ℕ) → CountsUp before now → (before < 2 ^ 63) ⊎ (2 ^ 63 ≤ before) → Begun 1 before now
one-more before now up (inl below) = let is : now ≡ before + 1 = up.below below in record { exact = λ room. is; later = omega arith; few = omega arith }
one-more before now up (inr above) = let is : now ≡ before = up.at_end above in record { exact = λ room. absurd (omega arith); later = omega arith; few = omega arith }

-- a count that goes up by one begins one text
pub one_begun : (before now : ℕ) → CountsUp before now → Begun 1 before now
one_begun before now up = one-more before now up (cases_lt before (2 ^ 63))

-- texts are begun one after the other
pub more-begun : (number other first second third : ℕ) → Begun number first second → Begun other second third → Begun (number + other) first third
more-begun number other first second third one two = record {
  exact = λ room. omega (arith, one.exact (omega arith), two.exact (let is : second ≡ first + number = one.exact (omega arith) in omega arith));
  later = omega (arith, one.later, two.later);
  few = omega (arith, one.few, two.few);
}

-- texts are three at most
pub few-texts : (texts : Texts) → text_count texts ≤ 3
few-texts texts = omega (arith, few-of texts.network, few-of texts.model, few-of texts.plan) where
  few-of : (text : Option (List ℕ)) → count_of text ≤ 1
  few-of None = omega arith
  few-of (Some text) = omega arith

-- a count of faults that has risen since a later count has risen since this one
pub rose-since : (first second third : ℕ) → first ≤ second → Rose second third → Rose first third
rose-since first second third later rose = omega arith

-- all texts of these names were begun
pub all_begun : (names : Texts) (shelf : Told) (counts : Counts) (before now : ℕ) → Begun (text_count names) before now → counts.faults_before ≤ counts.faults_now → BeginsOrStops names shelf counts before now None
all_begun names shelf counts before now begun later = record { begun = begun; stops = tt; read_fault = tt; too_long = tt; later = later }

-- a command stops for a cause that the counts show
pub stopped : (names : Texts) (shelf : Told) (counts : Counts) (before now : ℕ) (stop : Stop) → Stops names shelf before now stop → (IsReadStop stop → Rose counts.faults_before counts.faults_now) → TookMore counts.taken stop
    → counts.faults_before ≤ counts.faults_now → BeginsOrStops names shelf counts before now (Some stop)
stopped names shelf counts before now stop is rose more later = record { begun = tt; stops = is; read_fault = rose; too_long = more; later = later }

-- ---- a text that does not come in

-- a text of this kind and name does not come in
unread : (names : Texts) (file : FileKind) (name : Name) (shelf : Told) (number before now : ℕ) (stop : Stop) → Begun number before now → number ≤ text_count names → name_of names file ≡ Some name → IsLastBegun shelf names number file → IsUnread shelf name file stop → Stops names shelf before now stop
unread names file name shelf number before now (stops.Refused fault) begun few named place (inl read) = record { begun = number; rises = begun; few = few; is = rw read record { name = name; named = named; place = place } }
unread names file name shelf number before now (stops.Refused fault) begun few named place (inr long) = record { begun = number; rises = begun; few = few; is = rw long.0 record { name = name; named = named; place = place; longer = long.1 } }
unread names file name shelf number before now stops.OutOfMemory begun few named place why = record { begun = number; rises = begun; few = few; is = few }

-- these names
abbrev these : Option Name → Option Name → Option Name → Texts
these network model plan = record { network = network; model = model; plan = plan }

-- a command whose network text, the first begun, does not come in stops for that cause
pub network_unread : (network : Name) (model plan : Option Name) (shelf : Told) (before now : ℕ) (stop : Stop) → Begun 1 before now → IsUnread shelf network files.Network stop → Stops (record { network = Some network; model = model; plan = plan }) shelf before now stop
network_unread network model plan shelf before now stop begun why = unread (these (Some network) model plan) files.Network network shelf 1 before now stop begun (omega arith) refl refl why

-- a command whose model text, begun once a named network was read, does not come in stops for that cause
pub model-unread : (network : Option Name) (model : Name) (plan : Option Name) (shelf : Told) (before now : ℕ) (stop : Stop) → Begun (count_of network + 1) before now
    → WasRead shelf files.Network network → IsUnread shelf model files.Model stop → Stops (record { network = network; model = Some model; plan = plan }) shelf before now stop
model-unread network model plan shelf before now stop begun first why = unread (these network (Some model) plan) files.Model model shelf (count_of network + 1) before now stop begun (omega arith) refl (refl, first) why

-- a command whose plan text, begun once the other named texts were read, does not come in stops for that cause
pub plan-unread : (network model : Option Name) (plan : Name) (shelf : Told) (before now : ℕ) (stop : Stop) → Begun (count_of network + count_of model + 1) before now
    → WasRead shelf files.Network network → WasRead shelf files.Model model → IsUnread shelf plan files.Plan stop → Stops (record { network = network; model = model; plan = Some plan }) shelf before now stop
plan-unread network model plan shelf before now stop begun first second why = unread (these network model (Some plan)) files.Plan plan shelf (count_of network + count_of model + 1) before now stop begun (omega arith) refl (refl, first, second) why

-- a plan by itself does not come in
pub alone_unread : (plan : Name) (shelf : Told) (before now : ℕ) (stop : Stop) → Begun 1 before now → IsUnread shelf plan files.Plan stop → Stops (alone plan) shelf before now stop
alone_unread plan shelf before now stop begun why = plan-unread None None plan shelf before now stop begun tt tt why

-- where a text is answered to be too long, more bytes than its limit were taken
pub long_stop : (file : FileKind) (fault : ReadWhole) (taken : ℕ) → (fault ≡ read_faults.TooLong → most_bytes file < taken) → TookMore taken (stop_of_reading file fault)
long_stop file read_faults.TooLong taken more other same = let is : file ≡ other = cc in subst (λ (f : FileKind). most_bytes f < taken) is (more refl)
long_stop file read_faults.ReadFault taken more other same = absurd cc
long_stop file read_faults.OutOfMemory taken more other same = absurd cc

-- ---- texts that were read

refusal : (names : Texts) (shelf : Told) (begun : ℕ) (texts : Texts) (fault : RunFault) → AreRead shelf names begun texts → AreRefused texts fault → IsRefusalOf names shelf begun fault
refusal names shelf begun texts faults.Usage read refused = absurd refused
refusal names shelf begun texts (faults.Read file) read refused = absurd refused
refusal names shelf begun texts (faults.TooLong file) read refused = absurd refused
refusal names shelf begun texts (faults.Text file fault) read refused = record { texts = texts; read = read; holds = refused }
refusal names shelf begun texts (faults.PlanText rule at) read refused = record { texts = texts; read = read; holds = refused }
refusal names shelf begun texts (faults.LoopLink link) read refused = record { texts = texts; read = read; holds = refused }
refusal names shelf begun texts (faults.LoopDemand demand) read refused = record { texts = texts; read = read; holds = refused }
refusal names shelf begun texts (faults.Unsupported key value) read refused = record { texts = texts; read = read; holds = refused }
refusal names shelf begun texts (faults.OverLimit limit at) read refused = record { texts = texts; read = read; holds = refused }

read-stop : (names : Texts) (shelf : Told) (number : ℕ) (texts : Texts) (stop : Stop) → AreRead shelf names number texts → IsTextStop texts stop → IsStopCause names shelf number stop
read-stop names shelf number texts (stops.Refused fault) read is = refusal names shelf number texts fault read is
read-stop names shelf number texts stops.OutOfMemory read is = omega (arith, read.all)

after-all : (names : Texts) (shelf : Told) (counts : Counts) (before now : ℕ) (texts : Texts) (stop : Stop) → BeginsOrStops names shelf counts before now None → IsTextStop texts stop → IsStopCause names shelf (text_count names) stop
    → BeginsOrStops names shelf counts before now (Some stop)
after-all names shelf counts before now texts stop all of_texts is = record {
  begun = tt;
  stops = record { begun = text_count names; rises = all.begun; few = omega arith; is = is };
  read_fault = λ read. absurd (subst (λ (s : Stop). IsTextStop texts s) read.1 of_texts);
  too_long = λ file long. absurd (subst (λ (s : Stop). IsTextStop texts s) long of_texts);
  later = all.later;
}

-- where all named texts were read, a command stops for the cause for which they are refused
pub texts_stop : (names : Texts) (shelf : Told) (number : ℕ) (counts : Counts) (before now : ℕ) (texts : Texts) (stop : Stop) → AreRead shelf names number texts → BeginsOrStops names shelf counts before now None → IsTextStop texts stop
    → BeginsOrStops names shelf counts before now (Some stop)
texts_stop names shelf number counts before now texts stop read all is =
    after-all names shelf counts before now texts stop all is (subst (λ (n : ℕ). IsStopCause names shelf n stop) read.all (read-stop names shelf number texts stop read is))

-- the same of what comes of the texts
pub texts_end : {A : Type 0} (names : Texts) (shelf : Told) (number : ℕ) (counts : Counts) (before now : ℕ) (texts : Texts) (result : Result A Stop) → AreRead shelf names number texts → BeginsOrStops names shelf counts before now None
    → IfErr result (IsTextStop texts) → BeginsOrStops names shelf counts before now (result_err result)
texts_end names shelf number counts before now texts (Ok made) read all is = all
texts_end names shelf number counts before now texts (Err stop) read all is = texts_stop names shelf number counts before now texts stop read all is

-- a command that has begun all its texts may stop for want of memory
pub memory_after : (names : Texts) (shelf : Told) (counts : Counts) (before now : ℕ) → BeginsOrStops names shelf counts before now None → BeginsOrStops names shelf counts before now (Some stops.OutOfMemory)
memory_after names shelf counts before now all = after-all names shelf counts before now names stops.OutOfMemory all tt (omega arith)
