mod Determined
mod Exacting
mod Failing
mod Naming
mod Unread
