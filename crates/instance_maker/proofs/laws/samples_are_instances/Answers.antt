use Rattle.instance_maker.proofs.Instances.{reads, is_instance, few_steps}
use Rattle.instance_maker.proofs.laws.samples_are_instances.Goals as goal

pub returns-clause-reads : goal.returns-clause-reads
returns-clause-reads c = λ number nodes demands some few within. reads number nodes demands some few within

pub returns-clause-lawful : goal.returns-clause-lawful
returns-clause-lawful c = λ number nodes demands some few within. is_instance number nodes demands some few within

pub returns-clause-few_steps : goal.returns-clause-few_steps
returns-clause-few_steps c = λ number nodes demands e some few within. few_steps number nodes demands some few within e
