pub mod Reading
pub mod FigureLaws
pub mod ReadsLaws
pub mod LetterLaws
pub mod Determined
pub mod CodeLaws
pub mod TableLaws
pub mod PlainLaws
