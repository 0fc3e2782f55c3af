mod Scram
mod Servers
mod Unfollowed
