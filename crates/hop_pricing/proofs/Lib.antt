mod CountLaws
mod RoundLaws
mod AnswerLaws
