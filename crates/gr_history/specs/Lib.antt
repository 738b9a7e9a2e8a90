pub mod HistoryLogs
