pub mod FreshSlots
