mod Named
mod Queues
mod Reasons
