pub mod Spellings
pub mod Lexemes
pub mod Lexer
pub mod TokenTexts
