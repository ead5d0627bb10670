pub mod OtherTags
