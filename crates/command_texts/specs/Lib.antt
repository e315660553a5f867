pub mod TextAsked
pub mod TextMeans
