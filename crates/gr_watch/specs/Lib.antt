pub mod WatchLists
