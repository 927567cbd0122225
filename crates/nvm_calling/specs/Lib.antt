pub mod JobAlone
