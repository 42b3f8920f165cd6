pub mod LockAnswers
pub mod LockLine
