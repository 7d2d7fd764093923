-- What the contracts of a run say: which texts were begun and read, what stops a run, and how it ends.
pub use Rattle.command_texts.specs.Texts.{two, three}
pub use Rattle.command_texts.specs.Shelf.{AnswersOrStops}
pub use Rattle.run_ends.specs.Programs.{IsFoundOn, IsRunOn}
