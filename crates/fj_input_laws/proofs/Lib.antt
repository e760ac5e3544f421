pub mod FieldProofs
pub mod PassProofs
pub mod StepProofs
pub mod RecordProofs
pub mod ReadProofs
pub mod FittingProofs
