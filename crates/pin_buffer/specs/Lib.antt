pub mod PinMemory
