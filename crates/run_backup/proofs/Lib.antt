mod Followings
mod Backups
mod Offlines
mod Onlines
