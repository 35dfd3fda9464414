pub mod walking
