pub mod matching
