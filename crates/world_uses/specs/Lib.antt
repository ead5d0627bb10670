pub mod WorkedWorlds
