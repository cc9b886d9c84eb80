mod NewQueues
mod Orders
mod SlotLists
mod Spending
pub mod Tellings
