mod Walks
pub mod Chunk
pub mod ImageLaws
pub mod AtOnceLaws
pub mod FileSteps
pub mod SoundLaws
pub mod SureLaws
