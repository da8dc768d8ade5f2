pub mod KindTable
