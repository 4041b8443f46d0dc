mod AnswerLemmas
mod ConditionLemmas
mod CountLemmas
mod FullnessLemmas
mod ScanAnswers
mod ScanLemmas
mod SurveyLemmas
