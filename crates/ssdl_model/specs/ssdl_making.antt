pub mod StoreMeaning
