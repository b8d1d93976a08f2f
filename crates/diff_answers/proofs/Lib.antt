pub mod LedSo
