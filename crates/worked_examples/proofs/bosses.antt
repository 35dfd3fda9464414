pub mod Bosses
pub mod TwoBosses
pub mod OneBoss
pub mod NoBoss
pub mod NeededBoss
pub mod LinkHidden
pub mod BossLost
pub mod JoinedBosses
