-- The words that are read are more than the texts that they name.
use Rattle.std.proofs.Common.{◌≡◌, ◌+◌, ◌≤◌, ℕ, Bool, true, false, if◌then◌else◌, List, [], ◌∷◌, length, Option, Some, None, option_map, refl, ap, arith, codes}
use Rattle.std.specs.Prelude.{option_and_then}
use Rattle.std.specs.Str.{bytes_eq}
use Rattle.option_words.specs.Given.{Word, are_different, told}
use Rattle.option_words.proofs.Counts.{no_fewer_words}
use Rattle.command_words.specs.declared.command.Command.{Command}
use Rattle.command_words.specs.declared.command.Command.TheVariants.{OfNetwork}
use Rattle.command_words.specs.declared.command.NetworkWork.TheVariants.{Plan}
use Rattle.command_words.specs.declared.command.PlanWork.{PlanWork}
use Rattle.command_words.specs.declared.command.PlanWork.TheVariants.{Verify, Report}
use Rattle.command_words.specs.declared.command.SampleWork.{SampleWork}
use Rattle.command_words.specs.declared.command.SampleWork.TheVariants.{Sample, Trial}
use Rattle.command_words.specs.declared.command.SampleKey.{SampleKey}
use Rattle.command_words.specs.Words.{plan_said, check_said, of_plan_said, upgrade_said, key_said, of_sample_said, sample_of, plan_of, budget_of, workers_of, plan_options, network_names, plan_names, alone_names, sample_names, command_by, command_in, name_count}

-- how many texts a command names, if there is one
abbrev counted : Option (Command Word) → ℕ
counted None = 0
counted (Some command) = name_count command

choose : (b : Bool) (x y : Option (Command Word)) (most : ℕ) → counted x ≤ most → counted y ≤ most → counted (if b then x else y) ≤ most
choose true x y most one two = one
choose false x y most one two = two

-- ---- a command names no more texts than its word has names

plan_few : (network model : Word) (workers budget : Option Word) → counted (plan_of network model workers budget) ≤ 2
plan_few network model workers budget = go (workers_of workers) (budget_of budget)
  where
    go : (seats number : Option ℕ) → counted (option_and_then (λ (s : ℕ). option_map (λ (n : ℕ). OfNetwork (Plan s n) network model) number) seats) ≤ 2
    go None number = omega arith
    go (Some s) None = omega arith
    go (Some s) (Some n) = omega arith

plan_counted : (given : List (Option Word)) → counted (plan_said given) ≤ 2
unfolding plan_said
plan_counted (Some network ∷ Some model ∷ workers ∷ budget ∷ []) = plan_few network model workers budget
plan_counted _ = omega arith

check_counted : (given : List (Option Word)) → counted (check_said given) ≤ 2
unfolding check_said
check_counted (Some network ∷ Some model ∷ []) = omega arith
check_counted _ = omega arith

of_plan_counted : (work : PlanWork) (given : List (Option Word)) → counted (of_plan_said work given) ≤ 3
unfolding of_plan_said
of_plan_counted work (Some network ∷ Some model ∷ Some plan ∷ []) = omega arith
of_plan_counted work _ = omega arith

upgrade_counted : (given : List (Option Word)) → counted (upgrade_said given) ≤ 1
unfolding upgrade_said
upgrade_counted (Some plan ∷ []) = omega arith
upgrade_counted _ = omega arith

of_sample_counted : (work : SampleWork) (given : List (Option Word)) → counted (of_sample_said work given) ≤ 3
unfolding of_sample_said
of_sample_counted work given = go (key_said given)
  where
    go : (key : Option SampleKey) → counted (option_map (sample_of work) key) ≤ 3
    go None = omega arith
    go (Some key) = omega arith

-- ---- of all command words

-- a command that is read names no more texts than there are words behind its own
one_line : (names options rest : List Word) (said : List (Option Word) → Option (Command Word)) → are_different names ≡ true → ((given : List (Option Word)) → counted (said given) ≤ length names)
    → counted (option_and_then said (told names options rest)) ≤ length rest
one_line names options rest said different few = go (told names options rest) (no_fewer_words names options rest)
  where
    go : (given : Option (List (Option Word))) → ((found : List (Option Word)) → are_different names ≡ true → given ≡ Some found → length names ≤ length rest) → counted (option_and_then said given) ≤ length rest
    go None most = omega arith
    go (Some found) most = omega (arith, few found, most found different refl)

by_few : (word : Word) (rest : List Word) → counted (command_by word rest) ≤ length rest
by_few word rest =
    choose (bytes_eq word (codes "plan")) _ _ (length rest) (one_line network_names plan_options rest plan_said refl plan_counted)
    (choose (bytes_eq word (codes "check")) _ _ (length rest) (one_line network_names [] rest check_said refl check_counted)
    (choose (bytes_eq word (codes "verify")) _ _ (length rest) (one_line plan_names [] rest (of_plan_said Verify) refl (of_plan_counted Verify))
    (choose (bytes_eq word (codes "report")) _ _ (length rest) (one_line plan_names [] rest (of_plan_said Report) refl (of_plan_counted Report))
    (choose (bytes_eq word (codes "upgrade")) _ _ (length rest) (one_line alone_names [] rest upgrade_said refl upgrade_counted)
    (choose (bytes_eq word (codes "sample")) _ _ (length rest) (one_line sample_names [] rest (of_sample_said Sample) refl (of_sample_counted Sample))
    (choose (bytes_eq word (codes "trial")) _ _ (length rest) (one_line sample_names [] rest (of_sample_said Trial) refl (of_sample_counted Trial))
    (omega arith)))))))

-- the words that are read are more than the texts that they name
pub word_count : (words : List Word) (command : Command Word) → command_in words ≡ Some command → name_count command + 1 ≤ length words
word_count [] command is = absurd cc
word_count (word ∷ rest) command is = let same : counted (command_by word rest) ≡ name_count command = ap counted is in omega (arith, same, by_few word rest)
