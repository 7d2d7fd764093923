use Rattle.std.proofs.lemmas.Result.{err_from_is_err_and}
use Rattle.snd_reader.proofs.Loops.{head_fails, closes, body_fails, goes_on}
use Rattle.snd_reader.proofs.Turns.{turn_shorter}
use Rattle.snd_network.specs.Grammar.{SectionForm}
use Rattle.snd_network.specs.Reading.{section_turn, section, network}
use Rattle.snd_network.proofs.Whole.{live_section}
use Rattle.snd_network.proofs.Fresh.{complete_end}
use Rattle.snd_network.proofs.sections.network.Goals as goal

pub returns-in_err-kind-clause-gives : goal.returns-in_err-kind-clause-gives
returns-in_err-kind-clause-gives c =
    let p = err_from_is_err_and c.from_residual.result c.from_residual.ensures.1 in
    rw (p.1, p.2) (head_fails section_turn section (network c.args.cursor.now) c.sections.draft c.sections.cursor _ c.sections.invariant c.in_err-kind.ensures.gives)

pub returns-in_default-clause-gives : goal.returns-in_default-clause-gives
returns-in_default-clause-gives c =
    closes section_turn section (network c.args.cursor.now) c.sections.draft c.sections.cursor c.next_section.new.cursor c.sections.invariant (rw c.in_default.is at c.in_ok-kind.ensures.gives)

pub sections-smaller : goal.sections-smaller
sections-smaller c = turn_shorter section_turn section SectionForm live_section c.sections.draft c.section.new.draft c.in-Some.kind c.sections.cursor c.next_section.new.cursor c.section.new.cursor (rw c.in-Some.is at c.in_ok-kind.ensures.gives) c.in_ok-section.ensures.gives

pub sections-preserved : goal.sections-preserved
sections-preserved c = goes_on section_turn section (network c.args.cursor.now)
    c.sections.draft c.section.new.draft c.sections.cursor c.next_section.new.cursor c.section.new.cursor c.in-Some.kind c.sections.invariant (rw c.in-Some.is at c.in_ok-kind.ensures.gives) c.in_ok-section.ensures.gives (sections-smaller c)

pub returns-in_err-section-clause-gives : goal.returns-in_err-section-clause-gives
returns-in_err-section-clause-gives c =
    let p = err_from_is_err_and c.from_residual-in_err-section.result c.from_residual-in_err-section.ensures.1 in
    rw (p.1, p.2) (body_fails section_turn section (network c.args.cursor.now) c.sections.draft c.sections.cursor c.next_section.new.cursor c.in-Some.kind _ c.sections.invariant (rw c.in-Some.is at c.in_ok-kind.ensures.gives) c.in_err-section.ensures.gives)

pub returns-in_default-clause-complete : goal.returns-in_default-clause-complete
returns-in_default-clause-complete c = complete_end c.sections.draft c.sections.cursor c.next_section.new.cursor (rw c.in_default.is at c.in_ok-kind.ensures.gives)
