pub mod Outcomes
pub mod RoundTrips
