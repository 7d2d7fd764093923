-- The events of the machine, one for each call of a desk that may change its pool, and what a desk may say of a pool between them.
pub use Rattle.search_machine.specs.Machine.{OpenStep, OfferStep, GatherStep, PublishStep, SettleStep, CloseStep, ExamineStep, BetterStep}
pub use Rattle.search_machine.specs.Offering.{accepted_by}
pub use Rattle.search_machine.specs.PlanOf.{is_done}
pub use Rattle.search_machine.specs.Tasks.{IsLawfulTask, IsSearchState}
