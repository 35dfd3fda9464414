pub mod PickedProps
