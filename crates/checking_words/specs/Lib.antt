pub mod CheckingWords
