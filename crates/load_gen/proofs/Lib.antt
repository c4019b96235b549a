mod Table
mod Words
