pub mod Talk
