pub mod Places
pub mod Rising
pub mod RisingLaws
pub mod Sessions
