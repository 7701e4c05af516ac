mod HandleSteps
mod SlotSteps
mod HandleCrosses
pub mod Images
pub mod RunLaws
pub mod CalledUnits
pub mod FailingUnits
pub mod Lending
pub mod LentBack
pub mod FaithfulUnits
pub mod ModeSteps
pub mod FittingUnits
pub mod SavedUnits
pub mod MapTurns
mod WrittenBlocks
mod BusRuns
