pub mod RecordedTexts
