mod BothKeys
mod HostedKeys
mod JoinedKeys
mod JoinedRows
mod Gathered
mod LinkLists
