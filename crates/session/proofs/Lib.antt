mod TooLong
