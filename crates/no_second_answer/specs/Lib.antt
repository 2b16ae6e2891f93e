pub mod NoSecondAnswerLaws
