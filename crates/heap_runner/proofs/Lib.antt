pub mod StepLaws
pub mod SameGroves
pub mod RunLaws
pub mod StackLaws
pub mod OutcomeLaws
pub mod AdvanceLaws
pub mod BeginLaws
pub mod PlacingLaws
