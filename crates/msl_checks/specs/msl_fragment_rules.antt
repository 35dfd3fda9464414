pub mod FragmentFaults
