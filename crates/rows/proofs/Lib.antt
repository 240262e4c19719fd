mod Picks
mod Standings
mod Readings
