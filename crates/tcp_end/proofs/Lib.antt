mod Giving
mod Packets
