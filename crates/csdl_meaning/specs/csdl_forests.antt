pub mod SchoolForest
