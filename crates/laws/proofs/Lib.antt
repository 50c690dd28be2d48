pub mod Tests
pub mod OneAnswer
pub mod OverLaws
pub mod EveryLaws
pub mod ListLaws
pub mod MemberLaws
pub mod Range
pub mod Exits
